pub mod Elements
pub mod Tested
pub mod Members
pub mod Pairs
pub mod Ascending
pub mod Decided
