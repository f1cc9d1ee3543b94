pub mod Results
pub mod Lines
pub mod Answers
