-- Laws of saved pictures.
pub mod Numerals
pub mod Contents
pub mod Headers
pub mod Reading
pub mod Examples
