pub mod Pads
pub mod Heads
pub mod Objects
pub mod Widths
