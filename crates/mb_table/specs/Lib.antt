pub mod FirstWords
pub mod Forms
pub mod LongerWords
pub mod PlacedShorts
pub mod Short
pub mod ThreeWords
