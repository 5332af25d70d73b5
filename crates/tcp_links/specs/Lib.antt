pub mod Endings
pub mod Untold
