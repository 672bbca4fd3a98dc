-- Laws of the text for a file that is saved again.
pub mod ResavedTexts
pub mod Worked
