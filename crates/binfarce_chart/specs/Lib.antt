pub mod Chart
pub mod Views
pub mod Svg
