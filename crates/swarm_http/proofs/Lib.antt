pub mod Blobs
pub mod Texts
pub mod Requests
pub mod Serving
pub mod DoorServing
pub mod Pools
pub mod Asking
pub mod BoardCalls
mod Once
pub mod Keepers
pub mod Statuses
