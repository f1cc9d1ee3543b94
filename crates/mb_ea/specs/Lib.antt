pub mod Reading
pub mod Addresses
pub mod Resolve
