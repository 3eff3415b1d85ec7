pub mod ObjectTypes
pub mod Holders
pub mod SystemLaws
pub mod Steps
pub mod HolderLaws
pub mod OperatorLaws
pub mod KernelSignatures
pub mod BuiltInLaws
