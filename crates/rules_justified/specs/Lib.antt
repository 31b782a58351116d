pub mod Marks
pub mod Justify
