-- Laws of the numbering.
pub mod Numbering
