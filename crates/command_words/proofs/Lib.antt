pub mod BotParts
pub mod Found
pub mod Numbers
pub mod Rows
pub mod ServeParts
pub mod Taken
pub mod Walks
