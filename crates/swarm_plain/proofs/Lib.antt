mod Holding
mod Lowest
mod NextBot
