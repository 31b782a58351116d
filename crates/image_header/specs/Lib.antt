pub mod Header
pub mod Instruction
pub mod Thread
