pub mod Fetches
pub mod Entries
pub mod Finishes
pub mod InShort
pub mod Traces
pub mod Registers
