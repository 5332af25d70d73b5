pub mod Types
pub mod NamedBlobs
pub mod OutputLaw
pub mod BaseLaws
pub mod Worked
pub mod Bases
pub mod WorkedBase
pub mod WorkedRules
