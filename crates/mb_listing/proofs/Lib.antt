pub mod Lines
pub mod Numbers
pub mod NoDirectives
pub mod Sources
pub mod Placed
pub mod DataLines
pub mod Instructions
pub mod Gives
