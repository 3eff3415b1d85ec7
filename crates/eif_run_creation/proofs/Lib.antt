pub mod Callees
pub mod Bodies
pub mod Closing
pub mod DueFields
pub mod CleanCreators
pub mod Creation
pub mod RootClass
