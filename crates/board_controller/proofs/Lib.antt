-- Laws of the calls for firmware.
pub mod Packed
