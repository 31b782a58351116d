pub mod ColumnLists
pub mod CombineBranches
pub mod ColumnBranches
pub mod LeafEqualBranches
pub mod SlotBranches
pub mod CountBranches
pub mod GatherBranches
