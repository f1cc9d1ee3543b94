pub mod Pending
pub mod Bits
pub mod Completed
pub mod Single
pub mod Behind
