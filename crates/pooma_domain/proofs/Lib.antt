pub mod Beside
pub mod BoxSets
pub mod CellOrder
pub mod PaddedBox
pub mod PaddedMoves
pub mod Striding
pub mod Within
