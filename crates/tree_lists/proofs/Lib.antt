-- Laws of the blocks of the tree copied into lists.
pub mod CopiedLists
