pub mod Fronts
pub mod Rises
pub mod Posting
pub mod Looking
