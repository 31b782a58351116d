pub mod Inserted
pub mod SweepBranches
pub mod ChangeBranches
