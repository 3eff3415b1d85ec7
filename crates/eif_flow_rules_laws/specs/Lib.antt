pub mod SelfCallExamples
pub mod CreationTexts
pub mod CreatorExamples
pub mod GenericExamples
pub mod NameExamples
pub mod OrderExamples
pub mod TestLocalsAgree
