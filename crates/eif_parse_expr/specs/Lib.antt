pub mod InstructionSubrules
pub mod ReadParts
pub mod Readings
pub mod Subrules
