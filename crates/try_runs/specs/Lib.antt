pub mod Cases
pub mod Passed
pub mod Files
