mod NewMachines
mod NextLines
mod OnePool
