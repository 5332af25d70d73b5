pub mod Blobs
pub mod Keeping
