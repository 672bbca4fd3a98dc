-- What a program prints for the file that it is handed.
pub mod FileText
pub mod Handed
