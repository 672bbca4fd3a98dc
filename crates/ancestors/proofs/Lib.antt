-- Laws of the climb.
pub mod Ancestors
