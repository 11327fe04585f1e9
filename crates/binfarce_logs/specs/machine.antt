-- Definitions that only private contracts cite.
pub mod Annotating
pub mod Framing
pub mod Words
pub mod Wanted
