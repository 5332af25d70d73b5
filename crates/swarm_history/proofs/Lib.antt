mod Additions
mod Anew
mod Bringing
mod Checkpoints
mod Filled
mod Held
mod Keepers
mod KeptMachines
mod LoadedMachines
mod Others
pub mod OwnPoints
pub mod Machines
mod Refusals
mod Restoring
