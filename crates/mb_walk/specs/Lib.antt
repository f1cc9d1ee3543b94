pub mod Memory
pub mod Descriptors
pub mod Transparent
pub mod Search
pub mod Quiet
pub mod Laws
pub mod Parts
