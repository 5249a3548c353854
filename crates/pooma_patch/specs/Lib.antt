pub mod Patched
pub mod Rows
