pub mod Candidates
pub mod DeclaredViews
pub mod Replicated
pub mod Selected
pub mod Versions
