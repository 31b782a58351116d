pub mod Body
pub mod Decode
