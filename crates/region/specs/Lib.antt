pub mod Plain
pub mod FreeUnits
pub mod HoleSizes
pub mod SizesInside
pub mod Inside
