pub mod Headers
pub mod Walks
pub mod Names
pub mod RowParts
pub mod SectionsLeft
pub mod Tables
