pub mod Changing
pub mod Suiting
pub mod Rows
