pub mod Fields
pub mod Bodies
pub mod Invariant
pub mod UniverseLaws
pub mod ExpressionRuns
pub mod InstructionRuns
pub mod Soundness
