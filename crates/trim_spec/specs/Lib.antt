pub mod Document
pub mod Encode
pub mod Parse
pub mod Canonical
pub mod Framed
pub mod Live
pub mod Trim
pub mod Rests
