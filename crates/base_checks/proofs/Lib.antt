pub mod Pairs
pub mod Sorted
pub mod RowKeys
mod OneRow
mod OneBlob
mod Behind
mod NamedRuns
pub mod Tests
mod RightRuns
mod RightRows
mod Places
mod Ahead
mod Taken
mod Searched
mod Served
mod Whole
