pub mod Named
pub mod Done
