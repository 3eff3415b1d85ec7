pub mod Lineages
pub mod Orders
pub mod Universes
