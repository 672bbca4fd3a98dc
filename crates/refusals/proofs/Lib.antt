-- Laws of refusals.
pub mod Numbers
