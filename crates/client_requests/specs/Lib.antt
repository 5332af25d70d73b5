pub mod Requests
pub mod Addresses
pub mod Faults
