-- Rows as they are stored, the promises of storing and restoring, and the theorems about them.
pub mod Rows
pub mod Calls
pub mod Steps
pub mod Restoring
