pub mod TypesIn
pub mod Turns
pub mod ActualsInTurn
pub mod Outcome
