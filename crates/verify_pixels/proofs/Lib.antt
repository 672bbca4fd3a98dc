-- Laws of the joins at a place.
pub mod Edges
