pub mod Lists
pub mod Growing
pub mod Fitting
pub mod Heaps
pub mod Keeps
pub mod Operands
pub mod BuiltIns
