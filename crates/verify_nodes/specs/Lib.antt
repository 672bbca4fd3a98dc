-- What the checks of the nodes and of the map of a height say.
pub mod NodeChecks
