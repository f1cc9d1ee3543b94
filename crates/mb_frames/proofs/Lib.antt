pub mod Numbers
pub mod Fields
pub mod RoundTrip
pub mod StatusBits
pub mod TraceBit
