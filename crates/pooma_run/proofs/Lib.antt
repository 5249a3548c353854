pub mod Lists
pub mod Results
mod Joined
mod Worked
pub mod Earliest
pub mod Forms
pub mod Alike
pub mod Merging
pub mod Passing
pub mod Declared
pub mod Untold
pub mod Behind
pub mod Standing
pub mod Adding
pub mod Stepping
pub mod Concluding
pub mod Opening
pub mod Telling
pub mod Faulting
pub mod Performing
pub mod Performed
pub mod Reduced
pub mod Beginning
pub mod Shared
pub mod Doing
pub mod Histories
pub mod Served
pub mod ToldEntries
