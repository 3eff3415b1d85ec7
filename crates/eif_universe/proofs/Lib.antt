pub mod AncestorCounts
pub mod FirstNamed
pub mod FormalsInTurn
pub mod Joining
pub mod KernelCount
pub mod ManyAncestors
pub mod NoCircle
mod Numbered
pub mod ParentNumbers
pub mod Reaching
pub mod RootNumbers
pub mod Told
pub mod TypeLists
