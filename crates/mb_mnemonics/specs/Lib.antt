pub mod Ranges
pub mod Sizes
pub mod Modes
pub mod Lines
pub mod Operands
pub mod Means
pub mod Values
pub mod Code
