pub mod Objects
pub mod Requests
pub mod Releases
pub mod Crosses
