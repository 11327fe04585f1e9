pub mod Frames
pub mod Rest
