-- The refusals of files and calls.
pub mod Refusals
