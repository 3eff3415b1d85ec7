pub mod PlainClasses
pub mod SystemRules
