pub mod BrokenForms
pub mod Examples
pub mod Laws
