pub mod Shared
pub mod Course
pub mod NextTurn
pub mod Turn
pub mod RunIn
