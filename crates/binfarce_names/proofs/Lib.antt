pub mod NameLemmas
pub mod WorkedNames
pub mod V0LawLemmas
pub mod FirstPart
pub mod Trimmed
