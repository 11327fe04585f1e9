pub mod Scan
pub mod Reading
