pub mod Commands
pub mod Debugs
pub mod Laws
pub mod Boards
