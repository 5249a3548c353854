pub mod Kept
pub mod Measures
pub mod Readings
pub mod Seen
pub mod Sound
pub mod Verdicts
