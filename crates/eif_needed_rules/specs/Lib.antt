pub mod NeededRules
pub mod FeaturesNeeded
pub mod SignaturesNeeded
pub mod CallsNeeded
pub mod TestsNeeded
pub mod CreationNeeded
pub mod FlowNeeded
pub mod HarmlessRules
