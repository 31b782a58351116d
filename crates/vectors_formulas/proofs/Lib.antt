pub mod FileCounted
pub mod AnswerBranches
