-- What the numbering of patches promises.
pub mod Numbers
