-- What the tree as lists is.
pub mod Lists
