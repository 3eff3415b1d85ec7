pub mod LawfulCreation
