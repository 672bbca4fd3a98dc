-- Laws of the sums.
pub mod Summing
