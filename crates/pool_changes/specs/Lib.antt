pub mod Blobs
pub mod Loads
