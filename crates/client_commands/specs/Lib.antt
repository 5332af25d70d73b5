pub mod Requests
pub mod Plans
pub mod Steps
pub mod Commands
pub mod Batches
pub mod BatchRuns
