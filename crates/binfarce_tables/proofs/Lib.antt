pub mod FirstBytes
mod HeadersAlone
pub mod Readings
pub mod Sure
pub mod ReadingSteps
mod ElfSure
mod Located
mod Contents
mod PeAlone
mod PeSteps
mod MachoPrefix
mod MachoSure
mod MachoLocated
mod SectionsRead
mod VersionsRead
mod PeBeginning
mod PeStrings
mod PeSure
mod PeWhole
