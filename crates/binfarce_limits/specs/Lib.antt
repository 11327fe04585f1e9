pub mod Excess
pub mod Rows
pub mod Reading
pub mod ReadingViews
pub mod machine
