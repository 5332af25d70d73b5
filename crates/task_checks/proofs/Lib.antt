pub mod Bytes
pub mod Digests
mod InputFiles
mod Items
mod Lists
mod SliceParts
mod Unbroken
