pub mod Order
pub mod First
pub mod Changes
pub mod Following
pub mod Next
pub mod Apart
pub mod Sets
