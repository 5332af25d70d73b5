pub mod Cycles
pub mod Pieces
