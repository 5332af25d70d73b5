pub mod Meanings
pub mod Following
pub mod Batching
pub mod Running
