pub mod Writing
pub mod Checked
pub mod Transfers
pub mod Moving
pub mod Laws
