pub mod BufferLemmas
pub mod FlatMapLemmas
pub mod LineLemmas
pub mod SameLemmas
