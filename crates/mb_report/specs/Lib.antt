pub mod Digits
pub mod Text
pub mod Same
pub mod Lines
pub mod Kept
pub mod Buffered
