pub mod Calls
pub mod Doors
