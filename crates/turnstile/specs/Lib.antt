pub mod Numbers
pub mod Rule
pub mod Steps
pub mod Passes
pub mod Lending
pub mod Examples
