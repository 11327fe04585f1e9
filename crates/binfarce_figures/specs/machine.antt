-- Definitions that only private contracts cite.
pub mod Shares
pub mod Counts
pub mod Compared
pub mod Columns
pub mod Listings
pub mod Spans
pub mod Falling
pub mod Runs
