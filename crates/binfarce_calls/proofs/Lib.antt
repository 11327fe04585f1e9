mod Changes
mod RowSteps
mod InTurn
pub mod NameLines
mod Pairs
mod Placings
mod Refusals
mod SectionSteps
mod Steps
mod SumSteps
mod Takings
mod Written
