pub mod Kinds
pub mod Cut
pub mod Front
pub mod Cutting
pub mod Answers
