pub mod TrimmedSound
pub mod TrimmedKeeps
pub mod TrimPromised
pub mod Consequences
