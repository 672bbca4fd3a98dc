-- The text of the hold list.
pub mod HoldText
pub mod Steps
