pub mod Causes
pub mod Output
pub mod Prepared
pub mod Status
pub mod Tasks
