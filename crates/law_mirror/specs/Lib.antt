pub mod Related
pub mod Laws
pub mod Attempts
pub mod Ready
