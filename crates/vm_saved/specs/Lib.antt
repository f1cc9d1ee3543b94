pub mod Saved
pub mod Begins
pub mod Cuts
pub mod Resumes
pub mod Bits
pub mod Saving
pub mod Lawful
