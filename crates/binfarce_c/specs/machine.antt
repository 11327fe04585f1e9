-- Definitions that only private contracts cite.
pub mod Found
pub mod Filled
pub mod SectionErrors
