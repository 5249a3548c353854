pub mod Questions
pub mod Windows
pub mod Running
pub mod Workers
