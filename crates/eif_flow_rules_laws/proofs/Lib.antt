pub mod Counting
pub mod Leading
pub mod Meeting
pub mod TestLocals
pub mod Unfolding
