pub mod Dealing
pub mod Ends
pub mod Rule
pub mod Inside
