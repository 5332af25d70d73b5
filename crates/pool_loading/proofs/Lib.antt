pub mod Deciding
pub mod Stops
pub mod Refusing
pub mod Bases
pub mod Replays
pub mod Loads
pub mod Restoring
