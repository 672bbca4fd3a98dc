-- A lent tree, and the pass read off it.
pub mod Lent
pub mod Passes
