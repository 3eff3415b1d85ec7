pub mod SpelledTexts
