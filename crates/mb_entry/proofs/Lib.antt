pub mod Counts
pub mod Longs
pub mod Bytes
pub mod Few
pub mod Pending
pub mod Faulted
