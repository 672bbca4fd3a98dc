-- The list of patches.
pub mod PatchLists
pub mod Steps
