pub mod Places
pub mod Extents
pub mod SameItems
pub mod Digests
pub mod BlobRows
