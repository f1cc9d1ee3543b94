pub mod Frames
pub mod Owns
pub mod Covered
pub mod SeenReads
pub mod Watched
