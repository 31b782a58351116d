pub mod JoinedBranches
pub mod AcrossBranches
pub mod AcrossPromised
pub mod Consequences
