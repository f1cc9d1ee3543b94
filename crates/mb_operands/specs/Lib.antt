pub mod Endings
pub mod Fetched
