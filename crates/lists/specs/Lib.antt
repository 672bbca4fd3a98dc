-- Functions on lists, which the definitions of pictures share; blocks of cells, for what is said of memory.
pub mod Lists
pub mod Blocks
pub mod Writing
