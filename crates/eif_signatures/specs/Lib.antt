pub mod SignatureViews
pub mod DerivedSystems
