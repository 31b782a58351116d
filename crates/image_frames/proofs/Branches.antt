pub mod Checks
pub mod Frame
pub mod Walk
