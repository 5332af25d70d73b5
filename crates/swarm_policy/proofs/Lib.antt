pub mod Lists
pub mod Steps
pub mod DocumentTable
pub mod NextPool
pub mod GrantSteps
