pub mod Fields
pub mod Output
pub mod ObligationPlace
pub mod Record
pub mod Text
pub mod Uncut
