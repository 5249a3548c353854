pub mod Cuts
pub mod Existence
pub mod Longest
pub mod Parts
pub mod Readings
pub mod TokenBytes
pub mod Values
