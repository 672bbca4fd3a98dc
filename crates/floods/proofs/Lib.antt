-- Laws of floods.
pub mod Floods
