pub mod ElfEnds
pub mod Versions
pub mod Descriptors
pub mod ElfSelection
pub mod SelectionViews
pub mod ElfParts
pub mod ElfSegments
pub mod machine
