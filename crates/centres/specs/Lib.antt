-- The centre of a patch in tenths.
pub mod Centres
