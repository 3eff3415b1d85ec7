pub mod ClassTypes
pub mod TypeLaws
pub mod WholeUniverses
pub mod ClosedTypes
