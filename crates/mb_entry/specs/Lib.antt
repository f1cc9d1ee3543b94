pub mod Stacks
pub mod Places
pub mod Takes
pub mod Clauses
