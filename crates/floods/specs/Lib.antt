-- What the flood of a component says.
pub mod Floods
