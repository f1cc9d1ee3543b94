pub mod Numbers
pub mod Modes
pub mod Statements
pub mod Texts
pub mod Written
pub mod Read
pub mod Answers
