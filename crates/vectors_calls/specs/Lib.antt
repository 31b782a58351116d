pub mod VerdictAnswer
pub mod Judge
pub mod Kind
