pub mod PrintLemmas
pub mod LoadLemmas
