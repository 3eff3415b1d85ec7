pub mod ViewLaws
pub mod HeirLaws
pub mod SeenLaws
pub mod Turns
pub mod GroupLaws
pub mod DeclaredHere
pub mod NameLaws
pub mod CreatorLaws
