pub mod Sweep
pub mod Change
