pub mod Fields
pub mod Finding
pub mod Numbers
