pub mod LawfulSystems
pub mod Sound
