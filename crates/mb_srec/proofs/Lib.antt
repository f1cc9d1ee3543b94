pub mod Outside
pub mod Inside
pub mod Fields
pub mod Pieces
pub mod ReadBack
pub mod ChunkLemmas
