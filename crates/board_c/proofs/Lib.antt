-- Laws of the calls for C, and demand 3 of the bytes that they leave.
pub mod ForC
pub mod Demands
