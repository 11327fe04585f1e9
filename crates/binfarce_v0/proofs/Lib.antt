pub mod Folding
pub mod Manglings
pub mod RestLemmas
pub mod Validating
pub mod Anew
pub mod ListLemmas
pub mod Shown
