-- Laws of the checks of the nodes and of the map of a height.
pub mod Counted
pub mod Matched
pub mod NodeChecks
