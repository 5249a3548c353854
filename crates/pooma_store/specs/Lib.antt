pub mod Arrayed
pub mod Gathered
pub mod Numbering
pub mod Standing
pub mod Stored
