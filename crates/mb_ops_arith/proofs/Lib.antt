pub mod FieldNumbers
pub mod OneBit
pub mod Spelled
pub mod WithoutBus
