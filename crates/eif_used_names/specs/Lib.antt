pub mod LentNames
