mod Joined
pub mod Lists
mod Rows
