pub mod ClassSubrules
pub mod Parses
