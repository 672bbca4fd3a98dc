-- The line that is printed for a file.
pub mod Reports
