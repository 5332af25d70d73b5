pub mod Rules
pub mod Values
pub mod ClientWork
pub mod Grammar
pub mod Commands
