pub mod Keeping
pub mod Reset
pub mod Seen
pub mod Status
pub mod Pages
pub mod Laws
