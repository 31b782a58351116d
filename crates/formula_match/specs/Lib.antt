pub mod Template
pub mod Match
pub mod MatchPlaces
