mod Holding
mod Following
mod Moving
mod Counts
mod Committing
mod UsesChange
mod UsesFollow
mod Loading
pub mod Sending
