-- Laws of what the public calls promise.
pub mod Pixels
pub mod Built
pub mod Queries
pub mod Touches
pub mod LentTrees
pub mod Checked
pub mod Demands
pub mod FilledDemands
pub mod Answers
pub mod PatchLists
