-- Laws of tests and lists: Booleans, selections, members, sums, parts, blocks, updates, rising lists, indices, positions, copies, writing.
pub mod Tests
pub mod Lists
pub mod Members
pub mod Sums
pub mod Cuts
pub mod Blocks
pub mod Updates
pub mod Rising
pub mod Indices
pub mod Positions
pub mod Filling
pub mod Copies
pub mod Writings
