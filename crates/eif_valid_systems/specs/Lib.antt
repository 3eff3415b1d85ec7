pub mod ValidSystems
