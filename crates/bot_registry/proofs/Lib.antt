mod RowEffects
mod Named
mod Next
pub mod Alike
pub mod Counting
mod Demands
mod Recounting
