pub mod Few
pub mod FiveBits
pub mod Keeping
pub mod Operands
pub mod Rows
