pub mod Above
pub mod Faults
pub mod Fields
pub mod InOrder
pub mod Kept
pub mod Outcome
pub mod RowsFor
pub mod Whole
