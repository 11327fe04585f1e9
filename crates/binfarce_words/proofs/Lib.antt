pub mod Counts
pub mod LastGiven
pub mod WordLoop
pub mod ValuesGiven
pub mod Units
