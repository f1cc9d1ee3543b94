pub mod PassedLemmas
