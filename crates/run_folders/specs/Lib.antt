pub mod Names
pub mod Tools
pub mod Finds
