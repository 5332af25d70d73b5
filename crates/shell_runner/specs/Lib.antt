pub mod Shells
pub mod Children
