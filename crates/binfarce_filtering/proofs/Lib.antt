pub mod Runs
pub mod Scans
pub mod Names
pub mod Parts
pub mod Decisions
pub mod Outputs
pub mod Suffixed
pub mod Streams
