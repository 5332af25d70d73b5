pub mod Heads
pub mod HeadFields
pub mod HeadChecks
