-- Laws of the pass.
pub mod Passes
