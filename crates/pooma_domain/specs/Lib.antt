pub mod Axes
pub mod Bounds
pub mod Cells
pub mod Neighbours
pub mod Operations
pub mod Padding
pub mod Strides
