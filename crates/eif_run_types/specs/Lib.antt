pub mod LawfulTypes
