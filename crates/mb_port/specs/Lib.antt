pub mod Bits
pub mod Routine
pub mod Flushes
pub mod Pieces
pub mod Registers
