-- What every call promises.
pub mod Answers
