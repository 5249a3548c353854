pub mod CopiedCells
pub mod RowCells
