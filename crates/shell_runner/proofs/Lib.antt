pub mod Told
pub mod Untold
pub mod Codes
