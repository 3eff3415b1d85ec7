pub mod LawfulFeatures
