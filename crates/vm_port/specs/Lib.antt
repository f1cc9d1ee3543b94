pub mod Own
pub mod Around
pub mod Parts
pub mod Quiet
pub mod Watched
