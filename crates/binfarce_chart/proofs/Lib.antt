pub mod Lengths
pub mod Escapes
pub mod Rows
pub mod Texts
pub mod Notes
