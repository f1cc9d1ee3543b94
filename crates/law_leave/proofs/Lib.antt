pub mod Exits
pub mod Steps
pub mod Fits
pub mod FitParts
pub mod FitRows
pub mod FitEnds
