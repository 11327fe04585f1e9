pub mod Macho
pub mod MachoSymbols
pub mod MachoViews
pub mod MachoParts
pub mod MachoSections
pub mod MachoSelection
pub mod machine
