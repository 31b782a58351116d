pub mod IndexBranches
pub mod LookUps
