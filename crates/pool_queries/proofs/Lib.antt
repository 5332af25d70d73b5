pub mod Beyond
pub mod Filtered
pub mod Listed
pub mod Pages
pub mod Shown
pub mod Sorted
