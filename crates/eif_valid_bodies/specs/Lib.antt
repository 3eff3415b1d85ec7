pub mod KnownStays
pub mod SetReads
pub mod TestNames
pub mod Valid
pub mod ValidBodies
pub mod ValidCalls
pub mod ValidInstructions
pub mod ValidNodes
