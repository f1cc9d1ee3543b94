pub mod Joined
pub mod Single
