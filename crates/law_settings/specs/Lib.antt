pub mod Control
pub mod Status
pub mod Entries
