pub mod EqualNumbers
pub mod RowNumbers
pub mod RowPlaces
