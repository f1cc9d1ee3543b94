pub mod Always
pub mod Changed
pub mod Moved
pub mod Operands
pub mod Updates
pub mod Taken
