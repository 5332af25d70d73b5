pub mod KindLaws
pub mod ReadKinds
pub mod Back
