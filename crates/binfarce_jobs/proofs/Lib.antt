pub mod Shown
pub mod Making
pub mod Lines
pub mod AddressWords
mod Dynamic
mod Outcomes
pub mod FileLoop
pub mod FileFates
mod Bare
mod Links
mod Said
pub mod AboveRows
