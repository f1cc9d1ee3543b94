pub mod Layout
pub mod Reading
pub mod AccessFields
pub mod Worked
