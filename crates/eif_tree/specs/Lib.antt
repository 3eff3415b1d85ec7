pub mod ExpressionPlaces
pub mod Height
pub mod Members
pub mod Tree
pub mod View
