-- Definitions that only private contracts cite.
pub mod Mangling
pub mod Outcome
pub mod ByLetter
