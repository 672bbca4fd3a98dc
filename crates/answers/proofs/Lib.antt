-- Laws that every call shares.
pub mod Calls
