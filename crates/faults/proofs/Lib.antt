-- Laws of the faults.
pub mod Accepted
pub mod Faults
