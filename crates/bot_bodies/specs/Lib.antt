pub mod Names
pub mod ExitCodes
pub mod BotFields
pub mod BotCalls
pub mod Outputs
pub mod Files
pub mod Reports
