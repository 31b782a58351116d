pub mod Starred
pub mod Figures
