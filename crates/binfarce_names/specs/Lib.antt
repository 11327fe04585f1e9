pub mod Name
pub mod Named
pub mod Crates
pub mod Laws
