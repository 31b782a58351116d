pub mod ToTree
pub mod Place
pub mod StatementTree
