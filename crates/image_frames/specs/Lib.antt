pub mod Fault
pub mod Kinds
pub mod Frames
pub mod Records
