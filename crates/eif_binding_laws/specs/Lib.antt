pub mod WellFormed
pub mod BoundNames
pub mod Signatures
pub mod Origins
pub mod KeptSignatures
pub mod Precursors
pub mod Creation
