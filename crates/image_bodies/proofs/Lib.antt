pub mod Counts
pub mod Outlined
