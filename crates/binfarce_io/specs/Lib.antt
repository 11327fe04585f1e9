pub mod Faults
pub mod FaultWords
pub mod Input
pub mod MessageLine
pub mod Output
