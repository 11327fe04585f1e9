pub mod NeededVersions
pub mod Needs
pub mod NeedsReading
pub mod FileNeeds
pub mod Lines
pub mod machine
