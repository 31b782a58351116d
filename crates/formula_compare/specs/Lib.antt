pub mod Same
pub mod Replace
pub mod Occurs
