-- The run of the watershed: how far a pixel falls, the winner tree, and what holds between two falls.
pub mod Oracle
pub mod TreeOracle
pub mod Falls
pub mod WinnerTree
pub mod WinnerSteps
pub mod Stopping
pub mod Running
pub mod Turns
pub mod Lending
