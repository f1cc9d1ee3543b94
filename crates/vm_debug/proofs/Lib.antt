pub mod Fronts
pub mod Addresses
pub mod Debugging
pub mod OnBoards
pub mod Rows
pub mod Carried
