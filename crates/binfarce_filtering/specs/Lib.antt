pub mod Filter
pub mod Laws
pub mod Continued
pub mod FilterViews
pub mod machine
