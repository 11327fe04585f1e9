pub mod Contexts
pub mod Among
pub mod Words
pub mod Outputs
pub mod Annotating
mod Framing
pub mod Mapped
pub mod Marks
pub mod Bias
