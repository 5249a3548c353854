pub mod KeptArrays
pub mod KeptOnes
pub mod KeptPatches
pub mod LaterArrays
pub mod NewArrays
pub mod ObjectNumbers
pub mod OwnerNumbers
pub mod PatchBoxes
mod Worked
pub mod WorldChanges
