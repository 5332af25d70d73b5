pub mod Types
pub mod Visits
pub mod Works
pub mod Splits
pub mod Crews
pub mod Shared
