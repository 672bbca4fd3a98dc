-- What the program `resave` prints for a file.
pub mod Resaved
pub mod Steps
