-- The files of the edge cases.
pub mod EdgeFiles
