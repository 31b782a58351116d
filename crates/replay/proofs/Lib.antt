pub mod OpenBranches
pub mod WholeBranches
