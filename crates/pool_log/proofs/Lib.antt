pub mod Limits
pub mod Reached
mod Logs
pub mod RowFacts
pub mod TasksBelow
pub mod Finding
