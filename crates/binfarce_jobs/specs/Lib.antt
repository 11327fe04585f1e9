pub mod Code
pub mod Show
pub mod Files
pub mod Hints
pub mod Section
pub mod At
pub mod Limit
pub mod machine
