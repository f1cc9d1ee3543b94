pub mod Draws
pub mod Instructions
pub mod Programs
pub mod Sessions
pub mod Laws
pub mod Seen
