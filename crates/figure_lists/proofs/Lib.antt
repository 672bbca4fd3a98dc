-- Laws of the lists of figures.
pub mod Handed
