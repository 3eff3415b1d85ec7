pub mod FeatureSteps
pub mod GroupSteps
pub mod HeadSteps
pub mod Lists
pub mod NameSteps
pub mod NoteSteps
pub mod ParentSteps
pub mod WholeTexts
