pub mod Ancestries
pub mod Walks
