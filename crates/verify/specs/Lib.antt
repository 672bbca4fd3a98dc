-- What the check of a lent tree promises.
pub mod Checked
pub mod Heights
