pub mod Types
pub mod Boards
pub mod Crews
pub mod Posts
pub mod Ends
