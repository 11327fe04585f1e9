pub mod Pe
pub mod PeParts
pub mod PeSymbols
pub mod PeNames
pub mod PeRules
pub mod PeSelection
pub mod PeViews
pub mod machine
