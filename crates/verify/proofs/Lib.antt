-- Laws of the check of a lent tree.
pub mod Verified
pub mod Heights
