-- Laws that the proofs of the functions cite, and worked texts.
pub mod Figured
pub mod Rooms
pub mod Texts
pub mod FilledTexts
pub mod NamedSizes
pub mod Worked
