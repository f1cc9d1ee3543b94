pub mod Spellings
pub mod Encodes
