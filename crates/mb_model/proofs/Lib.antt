pub mod KeepingLemmas
pub mod NamesLemmas
pub mod ApartLemmas
pub mod Found
