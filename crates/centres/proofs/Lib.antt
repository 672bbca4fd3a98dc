-- The worked centres, and laws of rounding.
pub mod Worked
pub mod Rounding
