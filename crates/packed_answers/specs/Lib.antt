-- How answers are packed.
pub mod Packed
