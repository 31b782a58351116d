pub mod Answer
pub mod Judge
