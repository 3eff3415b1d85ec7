pub mod Graph
pub mod Inheritance
pub mod Kernel
pub mod Lineage
pub mod TreeForms
pub mod Universe
pub mod WrittenTypes
