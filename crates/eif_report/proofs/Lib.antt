pub mod CodeTexts
pub mod Lines
pub mod OneReport
pub mod PutCode
pub mod Sorting
pub mod Total
