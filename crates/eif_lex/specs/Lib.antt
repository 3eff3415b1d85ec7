pub mod Items
pub mod Lexes
pub mod Rows
pub mod Spots
