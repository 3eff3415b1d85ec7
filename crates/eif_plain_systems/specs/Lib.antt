pub mod PlainSystems
