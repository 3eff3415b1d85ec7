pub mod Entries
pub mod Seen
pub mod Descents
pub mod Held
pub mod LookUps
pub mod RowsAt
pub mod Bindings
