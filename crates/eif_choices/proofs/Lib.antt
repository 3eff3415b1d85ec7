pub mod Lines
pub mod Clauses
pub mod Heirs
pub mod Picking
pub mod Selecting
pub mod Kept
pub mod Ancestors
