-- What the joins at a place leave.
pub mod Edges
