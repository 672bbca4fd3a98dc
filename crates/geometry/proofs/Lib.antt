-- Laws of the steps, and of the cells that they fill.
pub mod Front
pub mod Steps
pub mod Listed
