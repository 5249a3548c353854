pub mod Common
pub mod Overlap
pub mod Restricted
pub mod Rows
pub mod Slots
pub mod Steps
pub mod Views
