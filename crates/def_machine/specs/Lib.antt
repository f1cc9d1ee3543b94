pub mod World
pub mod Places
pub mod Access
pub mod Bus
pub mod Machine
pub mod Laws
pub mod Enters
