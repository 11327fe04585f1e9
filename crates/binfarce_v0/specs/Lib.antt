pub mod Mangling
pub mod machine
