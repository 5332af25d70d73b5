pub mod Reached
pub mod Plain
pub mod Invariant
