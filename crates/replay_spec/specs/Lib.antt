pub mod MachineReplay
pub mod StateStands
pub mod ReplayNumbers
pub mod Follows
pub mod Plain
pub mod AnswerStands
pub mod Promise
