pub mod Passing
pub mod Further
pub mod Ends
