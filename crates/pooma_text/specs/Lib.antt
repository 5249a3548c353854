pub mod Lines
pub mod Number
pub mod Signs
pub mod Tokens
