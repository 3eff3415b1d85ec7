pub mod Cuts
pub mod DigitValues
pub mod Lists
pub mod Longer
pub mod QuoteLengths
pub mod Rows
pub mod SmallIntegers
pub mod StringValues
