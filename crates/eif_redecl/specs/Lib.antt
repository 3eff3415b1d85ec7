pub mod EntryViews
pub mod SeenClauses
pub mod SignaturePhase
