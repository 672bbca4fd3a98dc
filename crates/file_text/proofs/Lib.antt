-- Laws of the text for a file.
pub mod FileTexts
pub mod Examples
