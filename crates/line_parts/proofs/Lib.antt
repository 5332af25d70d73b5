pub mod Steps
pub mod ReadTexts
pub mod ReadParts
