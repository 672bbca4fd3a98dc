-- The P5 file: its header, the refusals, the shape of an accepted file and the causes of refusal.
pub mod Headers
pub mod Files
pub mod Shapes
pub mod Steps
