pub mod Emptied
pub mod Firsts
