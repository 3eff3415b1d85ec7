pub mod Numbered
pub mod TablesOf
