pub mod Ser
pub mod Writers
pub mod Histories
