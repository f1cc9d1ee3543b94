pub mod Modes
pub mod State
pub mod MicroTlb
pub mod Sound
