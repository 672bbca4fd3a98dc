-- A picture saved as a P5 file.
pub mod ShortFiles
pub mod Calls
pub mod Steps
pub mod Reading
