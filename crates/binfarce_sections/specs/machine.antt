pub mod Opened
pub mod Found
pub mod Listed
pub mod Summed
pub mod Changed
pub mod Added
