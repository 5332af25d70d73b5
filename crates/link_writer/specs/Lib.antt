pub mod Sends
pub mod Printing
