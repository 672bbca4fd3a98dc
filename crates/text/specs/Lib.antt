-- Numbers as decimal digits and as bytes, written behind one another.
pub mod Decimal
pub mod Little
