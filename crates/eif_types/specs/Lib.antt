pub mod TypeTables
pub mod Writers
