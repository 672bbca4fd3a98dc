-- Rasters and their grids, and what the functions behind the neighbours say.
pub mod Adjacencies
pub mod Rasters
pub mod Steps
