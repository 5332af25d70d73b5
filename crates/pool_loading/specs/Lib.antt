pub mod Types
pub mod Records
pub mod Asking
pub mod Bases
pub mod Lines
pub mod Filling
