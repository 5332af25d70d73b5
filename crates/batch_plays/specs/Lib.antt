pub mod Types
pub mod Asking
pub mod Saving
pub mod World
pub mod Turns
pub mod Once
