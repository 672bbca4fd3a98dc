-- What the functions that count the minima say.
pub mod Minima
