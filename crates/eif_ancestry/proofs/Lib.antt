pub mod Members
pub mod Rising
pub mod Marks
pub mod Climbing
pub mod Rows
pub mod ByCount
