pub mod Counts
pub mod Shelf
pub mod Stored
pub mod Sink
pub mod Loads
pub mod Prints
