pub mod Once
pub mod Resent
pub mod Own
pub mod Entries
pub mod NameLaw
mod GoingRuns
pub mod Telling
mod ToldRuns
pub mod RunLaw
pub mod CallLaw
pub mod CheckedLaw
mod Worked
