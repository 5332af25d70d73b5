pub mod Types
pub mod Computed
pub mod Attempts
pub mod Rows
pub mod Lines
pub mod Runs
pub mod Reading
