pub mod Account
pub mod Opening
pub mod Serving
pub mod Isolation
pub mod Request
pub mod Promise
