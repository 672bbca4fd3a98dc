-- Laws of stored rows, and worked pictures.
pub mod Differences
pub mod Orders
pub mod EqualRows
pub mod Conversions
pub mod Restoring
pub mod RowLoops
pub mod RowWrites
pub mod RowCalls
pub mod Examples
