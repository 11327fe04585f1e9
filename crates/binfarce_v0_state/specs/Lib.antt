pub mod machine
pub mod LeafTexts
pub mod TreeTexts
