pub mod Beside
pub mod InTurn
pub mod LiteralTypes
pub mod NameCounts
pub mod Replicating
pub mod Selecting
pub mod VersionFaults
