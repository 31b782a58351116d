pub mod ByPair
pub mod OccursBranches
