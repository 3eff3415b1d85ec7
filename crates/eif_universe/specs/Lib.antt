pub mod ClassNumbering
pub mod ClassesView
pub mod Refusals
pub mod Universes
