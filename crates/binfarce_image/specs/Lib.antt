pub mod Structure
pub mod Image
pub mod ImageRefusal
pub mod ImageSymbols
pub mod machine
