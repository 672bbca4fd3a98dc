-- Laws of the definitions that are close to them, and the worked pictures.
pub mod Neighbours
pub mod Sides
pub mod Worked
