pub mod RowEntries
pub mod RowSets
pub mod Spread
pub mod Threes
