pub mod BaseLineExamples
pub mod BodiesRead
pub mod BotRequestExamples
pub mod LineExamples
