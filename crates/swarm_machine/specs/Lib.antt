pub mod Types
pub mod Counting
pub mod TouchedBlobs
pub mod Uses
pub mod UsesBehind
pub mod Indexes
pub mod Invariant
pub mod Loading
