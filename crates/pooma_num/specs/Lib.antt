pub mod Exact
pub mod Sum
