pub mod Picked
pub mod Candidacy
pub mod Ancestors
pub mod Chosen
