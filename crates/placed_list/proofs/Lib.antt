pub mod Listing
pub mod Places
pub mod Pieces
pub mod Gaps
pub mod BlockEdits
