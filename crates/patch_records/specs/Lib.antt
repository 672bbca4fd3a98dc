-- What the functions on records of patches promise.
pub mod Records
