-- Laws of decimal numbers and of what is written.
pub mod Decimals
pub mod NumbersWritten
