pub mod Types
pub mod Calls
pub mod Machines
pub mod Settling
pub mod Records
pub mod Checkpoints
pub mod OneProof
