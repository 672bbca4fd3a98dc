-- Laws of the list of patches.
pub mod PatchLists
