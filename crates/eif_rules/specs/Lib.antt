pub mod FaultForms
pub mod UniverseRules
