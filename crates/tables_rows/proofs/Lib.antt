pub mod EntailmentBranches
pub mod DistinctLeaves
pub mod ChoicesTried
pub mod EveryRowBranches
pub mod ByTableBranches
pub mod ByRowsBranches
pub mod LogicAgrees
