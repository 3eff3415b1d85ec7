pub mod Assembled
pub mod Covers
pub mod Fronts
pub mod Joins
pub mod FlatPieces
