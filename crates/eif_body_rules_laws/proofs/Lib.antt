pub mod FactsByTree
