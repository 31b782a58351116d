pub mod HeaderBranches
pub mod InstructionBranches
pub mod ThreadBranches
