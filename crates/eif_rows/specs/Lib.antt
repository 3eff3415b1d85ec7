pub mod AncestorRows
pub mod Matched
pub mod Numbers
pub mod Rows
pub mod Systems
pub mod Versions
