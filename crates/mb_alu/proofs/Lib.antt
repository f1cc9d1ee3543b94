pub mod Carries
pub mod Words
pub mod Steps
pub mod Turns
