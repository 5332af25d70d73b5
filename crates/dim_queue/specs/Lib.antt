pub mod Order
pub mod Taking
pub mod Plain
pub mod QueueList
pub mod Inside
