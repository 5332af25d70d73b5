pub mod Invariant
pub mod Lowest
