pub mod Crossing
pub mod Views
