-- What the figures of patches as lists are.
pub mod Figures
pub mod Steps
