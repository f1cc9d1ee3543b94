pub mod Disk
pub mod Registers
pub mod Inside
pub mod Text
pub mod Same
pub mod Laws
