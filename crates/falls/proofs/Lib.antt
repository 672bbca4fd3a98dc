-- Laws of the climb in the tree's cells.
pub mod Fathers
