pub mod Reported
pub mod Listings
pub mod Lines
pub mod CrateSums
pub mod CrateLines
pub mod Reports
pub mod Selected
pub mod SectionAnswers
pub mod FilesGive
pub mod TablesRead
pub mod TablesGive
mod SymbolLaws
