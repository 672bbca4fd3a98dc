-- What the arrays of the tree hold.
pub mod Arrays
pub mod Built
