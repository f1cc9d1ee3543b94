pub mod Kit
pub mod Picked
pub mod Codes
pub mod Laps
pub mod Programs
pub mod Reading
pub mod Images
