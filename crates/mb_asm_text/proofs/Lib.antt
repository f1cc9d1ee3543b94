pub mod Runs
pub mod Shapes
pub mod Fronts
pub mod Places
pub mod Cuts
pub mod OneKind
pub mod Whole
pub mod SomeCut
