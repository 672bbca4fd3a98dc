-- What the cores of the patches promise, and the handbooks.
pub mod Figures
pub mod Handbooks
