pub mod Runs
pub mod Laws
pub mod Least
pub mod Off
pub mod Compares
pub mod Deciding
pub mod Images
