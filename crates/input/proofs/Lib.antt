pub mod Counting
pub mod ReadBranches
