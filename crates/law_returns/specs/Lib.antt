pub mod Keeping
pub mod Returns
pub mod Movems
pub mod Plain
