pub mod ClassRows
pub mod Filling
pub mod Phase
