pub mod Sight
pub mod Seen
pub mod Rule
pub mod Steps
pub mod Tokens
pub mod Turns
pub mod Readied
