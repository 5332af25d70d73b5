pub mod Types
pub mod Fitting
pub mod Told
pub mod Meant
