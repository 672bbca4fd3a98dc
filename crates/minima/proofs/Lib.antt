-- Laws of the floods of flat zones.
pub mod Floods
