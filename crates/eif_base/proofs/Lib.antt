pub mod Adding
mod Keys
pub mod Numbered
mod Remaining
