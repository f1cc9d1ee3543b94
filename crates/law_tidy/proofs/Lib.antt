pub mod NoChoices
pub mod OneWays
pub mod TidyRuns
pub mod Off
pub mod Told
pub mod OnImages
pub mod Images
