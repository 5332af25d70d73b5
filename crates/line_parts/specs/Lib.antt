pub mod Types
pub mod Finding
pub mod Lists
pub mod Numbers
pub mod Names
pub mod Parts
pub mod PartLaws
pub mod Tasks
