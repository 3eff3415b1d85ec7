pub mod Adaptations
pub mod FeatureSets
pub mod FirstPlaces
pub mod NamedItems
pub mod Parts
