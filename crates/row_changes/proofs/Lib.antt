pub mod Changed
pub mod Numbered
pub mod Folding
pub mod Lent
pub mod RowEffects
