pub mod Address
pub mod Columns
pub mod Json
