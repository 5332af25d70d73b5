pub mod BodyLemmas
pub mod Numerals
pub mod IdDigits
pub mod Arrays
pub mod Steps
pub mod LeftFields
