pub mod Broken
pub mod Inputs
pub mod Reading
