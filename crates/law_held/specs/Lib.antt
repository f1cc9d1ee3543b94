pub mod Lawful
pub mod Sound
pub mod Truth
pub mod Denied
pub mod Refills
pub mod Names
