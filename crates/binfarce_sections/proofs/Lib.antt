mod Opening
pub mod FullNames
pub mod Searching
pub mod TablesRead
pub mod SourceAnswers
pub mod Sure
pub mod Shares
pub mod Ranked
pub mod SumAnswers
pub mod SumRows
pub mod Whole
pub mod ChangeSums
pub mod Joined
mod AddedRows
