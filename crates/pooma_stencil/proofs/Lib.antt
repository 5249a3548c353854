pub mod Axes
pub mod Expanded
pub mod Firsts
pub mod Offsets
pub mod Restricted
pub mod Trees
pub mod ViewsRead
