pub mod Items
pub mod Views
pub mod Commands
pub mod Refusals
pub mod Bodies
