pub mod Rooms
pub mod Written
