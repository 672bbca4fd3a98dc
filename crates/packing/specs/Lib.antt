-- Entries packed in bytes.
pub mod Packing
