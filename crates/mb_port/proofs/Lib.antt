pub mod Cuts
pub mod Fewest
pub mod Whole
pub mod Laid
pub mod SetBits
