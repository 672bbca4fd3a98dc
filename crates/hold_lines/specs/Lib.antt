-- The lines of the hold list.
pub mod Lines
pub mod Figures
