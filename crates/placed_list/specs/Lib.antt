pub mod Plain
pub mod Blocks
pub mod OrderInside
pub mod Places
pub mod Inside
