pub mod Lists
pub mod PlainParts
pub mod PlainBodies
pub mod NoFields
pub mod Systems
