-- Laws that the proofs of the functions cite.
pub mod Around
pub mod BuiltTree
