pub mod RowsAlone
pub mod Following
