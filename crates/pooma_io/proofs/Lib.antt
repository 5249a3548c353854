pub mod Front
pub mod Taken
