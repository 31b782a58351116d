pub mod EachRowOnce
pub mod RunBranches
pub mod ValueBranches
