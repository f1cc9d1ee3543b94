pub mod Fetching
pub mod Modes
