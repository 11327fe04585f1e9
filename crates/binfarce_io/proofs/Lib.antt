pub mod Streams
pub mod Holding
pub mod Loading
