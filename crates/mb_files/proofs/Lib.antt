pub mod ReadingLemmas
pub mod FileLemmas
pub mod SnapshotLemmas
