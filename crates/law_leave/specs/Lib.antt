pub mod Exits
pub mod Steps
pub mod Fits
