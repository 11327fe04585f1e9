-- Definitions that only private contracts cite.
pub mod Places
pub mod Answers
pub mod Answering
pub mod Sweep
pub mod Sweeping
