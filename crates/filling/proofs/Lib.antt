-- Laws of the cells that the filling begins with.
pub mod Begun
