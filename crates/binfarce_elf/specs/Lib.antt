pub mod Elf
pub mod Classes
pub mod ElfSymbols
pub mod SymbolTables
pub mod ElfViews
pub mod machine
