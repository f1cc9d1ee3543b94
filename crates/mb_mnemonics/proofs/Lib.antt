pub mod ShortEndings
pub mod SameForm
pub mod Names
pub mod ModeWords
pub mod OperandWords
pub mod Length
