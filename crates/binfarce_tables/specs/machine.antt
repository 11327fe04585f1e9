-- Definitions that only private contracts cite.
pub mod Places
pub mod PePlaces
pub mod MachoPlaces
