pub mod TextLemmas
pub mod Lanes
pub mod LlvmLemmas
pub mod PrefixLemmas
pub mod Passing
