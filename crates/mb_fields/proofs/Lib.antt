pub mod Parts
pub mod Borrows
pub mod Digits
