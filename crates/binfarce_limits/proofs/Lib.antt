mod Splits
mod Lines
mod Names
