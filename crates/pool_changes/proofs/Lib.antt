pub mod Legality
pub mod Growing
pub mod Contents
pub mod Storing
pub mod BlobEffects
pub mod Loading
