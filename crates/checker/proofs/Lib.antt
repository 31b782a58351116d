pub mod JudgeBranches
pub mod AcceptanceBranches
