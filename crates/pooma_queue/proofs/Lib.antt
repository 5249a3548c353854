pub mod Places
pub mod Fronts
pub mod Order
pub mod Holding
pub mod Counts
