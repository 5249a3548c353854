pub mod Gathered
pub mod Serving
pub mod Splits
pub mod Statements
pub mod Words
