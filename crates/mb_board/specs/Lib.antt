pub mod State
pub mod Arrivals
pub mod Beside
pub mod Spelling
pub mod Fits
pub mod Idle
pub mod Calm
