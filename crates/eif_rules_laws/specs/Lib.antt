pub mod UniverseExamples
