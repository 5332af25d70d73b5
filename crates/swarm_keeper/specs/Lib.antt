pub mod Tables
pub mod Stores
pub mod Places
