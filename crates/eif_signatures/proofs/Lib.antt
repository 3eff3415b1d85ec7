pub mod SamePairs
pub mod Derived
