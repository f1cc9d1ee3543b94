pub mod Sums
pub mod Numbers
pub mod Spans
pub mod Lists
pub mod Powers
