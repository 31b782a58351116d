pub mod CodeSets
pub mod NodeBranches
pub mod ReaderBranches
pub mod EndBranches
pub mod FaultNumbers
