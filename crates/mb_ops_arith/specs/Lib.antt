pub mod Changes
pub mod Effects
pub mod Pairs
pub mod Counts
pub mod Decimals
pub mod Groups
pub mod AtHand
