pub mod Devices
pub mod Registers
pub mod Inside
pub mod Laws
pub mod Adopted
