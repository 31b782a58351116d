pub mod Handover
pub mod Table
pub mod Fits
pub mod LinesFound
pub mod Code
pub mod Refusal
pub mod Promise
