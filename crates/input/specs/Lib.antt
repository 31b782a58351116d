pub mod Filled
pub mod Reached
