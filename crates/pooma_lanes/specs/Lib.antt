pub mod Blocks
pub mod Divisors
pub mod Orders
pub mod Rows
pub mod Totals
