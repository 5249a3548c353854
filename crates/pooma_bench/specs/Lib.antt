pub mod Increments
pub mod Windows
pub mod Command
pub mod Texts
pub mod Planes
