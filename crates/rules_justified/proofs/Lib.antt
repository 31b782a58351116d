pub mod MarkBranches
pub mod JustifyBranches
pub mod JustifiedAgree
