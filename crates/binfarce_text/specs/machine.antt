-- Definitions that only private contracts cite.
pub mod Suffixes
pub mod Strides
pub mod Passing
