pub mod WrittenTexts
pub mod SpelledTrees
