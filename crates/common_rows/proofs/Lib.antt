mod Tasks
mod NumberedTasks
pub mod LoadedRows
pub mod Entering
pub mod Ready
