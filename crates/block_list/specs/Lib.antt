pub mod Plain
pub mod Partition
pub mod Blocks
pub mod Inside
pub mod Rising
