pub mod Types
pub mod World
pub mod Pool
pub mod Turns
pub mod Phases
pub mod Invariant
pub mod TwoEnds
