pub mod Fit
pub mod Rules
pub mod Computed
