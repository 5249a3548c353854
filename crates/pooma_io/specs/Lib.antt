pub mod Adapter
pub mod Bounds
pub mod Outside
