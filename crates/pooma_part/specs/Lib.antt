pub mod Crossing
pub mod CutLines
pub mod Cuts
