pub mod Rows
pub mod Parts
pub mod Bots
pub mod Output
