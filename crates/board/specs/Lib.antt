-- What the public calls promise.
pub mod Pixels
pub mod Calls
pub mod Touches
pub mod Trees
pub mod LentTrees
pub mod PatchLists
pub mod Demands
