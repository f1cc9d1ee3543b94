pub mod Built
pub mod Steps
pub mod Looks
pub mod Reading
pub mod Whole
pub mod Parsed
pub mod Made
