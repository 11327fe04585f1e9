-- Definitions that only private contracts cite.
pub mod Numbers
pub mod View
pub mod Ends
pub mod Decoded
