pub mod AccessPlaces
pub mod Totals
pub mod AccessTrees
