pub mod Ascending
pub mod Lines
pub mod Registers
