pub mod Base62
pub mod Identifiers
pub mod Forms
pub mod Tree
pub mod Reading
pub mod Unfolding
pub mod machine
pub mod Punycode
