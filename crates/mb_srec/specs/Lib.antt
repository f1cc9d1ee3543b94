pub mod Faults
pub mod Image
pub mod Kinds
pub mod Records
pub mod Written
pub mod Answers
