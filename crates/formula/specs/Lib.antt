pub mod Codes
pub mod Tree
pub mod Reader
