pub mod Legacy
pub mod machine
