pub mod Types
pub mod Plain
pub mod Acting
pub mod Names
pub mod Demands
pub mod Inside
