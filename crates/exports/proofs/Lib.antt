pub mod ExportBranches
pub mod RowsBranches
