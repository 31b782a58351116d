pub mod ImageVerdict
pub mod Promise
pub mod Acceptance
