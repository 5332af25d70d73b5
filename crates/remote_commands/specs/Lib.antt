pub mod Streams
pub mod Environment
pub mod Clients
pub mod BotCommands
