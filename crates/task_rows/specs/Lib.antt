pub mod Plain
pub mod Acting
pub mod Inside
