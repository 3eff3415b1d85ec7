pub mod Calls
pub mod Crossing
pub mod Forms
pub mod NameSets
pub mod OneReading
pub mod Phases
pub mod GivenInTurn
pub mod Readings
