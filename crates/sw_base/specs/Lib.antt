pub mod Faults
pub mod Clock
pub mod Link
pub mod Files
pub mod Told
pub mod Acceptors
pub mod Listeners
pub mod Dialers
