pub mod DerivationRows
pub mod Filled
pub mod ListNumbers
pub mod ParentActuals
pub mod WayViews
