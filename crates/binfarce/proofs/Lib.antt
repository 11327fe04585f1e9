pub mod PeSizes
mod PeListed
pub mod Made
mod Searches
