pub mod Letters
pub mod Characters
pub mod Steps
pub mod Prefixes
pub mod Streams
pub mod Suffixes
pub mod machine
