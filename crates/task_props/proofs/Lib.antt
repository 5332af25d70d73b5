pub mod Checked
pub mod Computed
pub mod NoFloats
mod Outlines
pub mod Sending
pub mod Telling
pub mod Texts
