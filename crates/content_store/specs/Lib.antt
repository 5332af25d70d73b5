pub mod Contents
pub mod Plain
pub mod Slots
pub mod Inside
pub mod RowOrder
pub mod StoredRows
pub mod BlobsInside
