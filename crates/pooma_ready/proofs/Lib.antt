pub mod Dealt
pub mod Kept
