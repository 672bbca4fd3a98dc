-- Laws of packed entries.
pub mod Packed
