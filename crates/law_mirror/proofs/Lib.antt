pub mod Quiet
pub mod Translated
pub mod Mirrors
pub mod Calls
pub mod Inside
pub mod Guard
pub mod Attempts
pub mod Ready
