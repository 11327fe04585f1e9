-- Definitions that only private contracts cite.
pub mod Counted
pub mod Printing
pub mod Kept
pub mod Outcome
pub mod MemoryKept
pub mod View
