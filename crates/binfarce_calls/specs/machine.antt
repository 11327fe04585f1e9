-- Definitions that only private contracts cite.
pub mod Reported
pub mod Steps
