pub mod Adopting
pub mod Counting
pub mod Fit
pub mod Lending
pub mod Members
pub mod Orders
pub mod Places
