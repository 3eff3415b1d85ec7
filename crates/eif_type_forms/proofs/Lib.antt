pub mod Marking
pub mod Resolving
pub mod Views
