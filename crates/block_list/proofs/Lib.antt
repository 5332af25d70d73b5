mod Pieces
mod Searches
mod Changes
pub mod Rising
