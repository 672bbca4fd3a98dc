-- The theorems about reading are in Accepted, Refused and Places; the other modules are laws that they and the proofs of the functions cite.
pub mod Leading
pub mod Blanks
pub mod Gap
pub mod Digits
pub mod Walking
pub mod Answers
pub mod Fields
pub mod Shape
pub mod Verdicts
pub mod Accepted
pub mod Refused
pub mod Cut
pub mod Begun
pub mod Places
pub mod Examples
