pub mod Registers
pub mod Control
pub mod Status
pub mod Entries
