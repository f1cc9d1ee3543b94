pub mod Arrays
pub mod Opcodes
pub mod Words
pub mod Ranges
pub mod PlainRegisters
