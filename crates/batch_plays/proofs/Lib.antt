pub mod Entries
pub mod Calls
pub mod Asked
pub mod Marking
pub mod Standing
pub mod Sent
pub mod Saved
pub mod Playing
