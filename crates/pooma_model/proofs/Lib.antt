pub mod Assigned
pub mod Changing
pub mod CutParts
pub mod DraftLines
pub mod Drafting
pub mod Ending
pub mod Faulting
pub mod Fitting
pub mod Gathering
pub mod Growing
pub mod Keeping
pub mod Lists
pub mod Nesting
pub mod Partitioning
pub mod Passing
pub mod Reading
pub mod Running
pub mod Stepping
pub mod Walks
mod Worked
mod WorkedOrder
