pub mod Slots
pub mod Shadows
pub mod Mapped
pub mod Area
pub mod Chains
pub mod Links
pub mod Laws
pub mod Listed
