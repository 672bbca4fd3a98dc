-- Sums over the places of patches.
pub mod Sums
