pub mod Boxes
pub mod Reading
pub mod Filling
pub mod Marks
pub mod Kept
pub mod Freshened
pub mod Gathered
