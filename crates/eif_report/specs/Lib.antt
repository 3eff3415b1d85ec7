pub mod OneReport
pub mod Order
pub mod Report
