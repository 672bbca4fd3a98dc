-- The faults of a call.
pub mod PictureFault
pub mod Faults
pub mod Steps
