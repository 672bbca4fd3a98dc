-- Laws of the tree's cells.
pub mod Trees
