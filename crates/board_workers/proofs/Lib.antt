mod Telling
mod Sending
mod Following
mod Splitting
mod Views
mod Shutting
mod Moving
mod Closing
