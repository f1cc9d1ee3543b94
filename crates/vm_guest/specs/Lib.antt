pub mod Memory
pub mod Joining
pub mod Session
pub mod Turns
pub mod Counting
pub mod Rests
pub mod Native
pub mod Stops
