-- Filling by union-find, a height at a time: what holds between two steps.
pub mod FillSizes
pub mod FillLevels
pub mod FillLinks
pub mod FillJoins
pub mod FillWalks
pub mod FillSettling
pub mod FillValues
