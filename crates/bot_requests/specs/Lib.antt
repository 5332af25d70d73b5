pub mod Dimensions
pub mod Bodies
pub mod Requests
