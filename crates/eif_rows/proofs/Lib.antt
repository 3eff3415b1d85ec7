pub mod Matches
pub mod RisingLists
pub mod NameSets
pub mod ClassSets
pub mod Searching
pub mod Sorting
pub mod AncestorLists
pub mod VersionLaws
