pub mod Guarded
pub mod Left
pub mod Laws
