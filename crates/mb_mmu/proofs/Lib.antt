pub mod Modal
pub mod ByPage
pub mod SoundTlb
