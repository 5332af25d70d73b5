pub mod Keeping
pub mod Reading
pub mod Asking
pub mod Chains
