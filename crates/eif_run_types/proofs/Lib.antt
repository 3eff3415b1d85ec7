pub mod ClosedTypes
pub mod LawfulTypes
