-- Laws of the lines.
pub mod Lengths
