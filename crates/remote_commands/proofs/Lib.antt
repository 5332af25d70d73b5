pub mod OptionFaults
pub mod BotEnds
