pub mod Published
pub mod Posted
pub mod PosterFields
pub mod Reading
pub mod ViewFields
