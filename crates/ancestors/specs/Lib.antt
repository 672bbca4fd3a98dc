-- What the climb asks.
pub mod Ancestors
