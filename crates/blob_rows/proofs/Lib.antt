pub mod SameItems
pub mod LeastPlaces
pub mod Texts
pub mod Counts
pub mod Distinct
