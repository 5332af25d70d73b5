pub mod Outcomes
pub mod Boards
pub mod Steps
