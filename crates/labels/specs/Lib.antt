-- What the labelling of a section and the lowerable test say.
pub mod Labels
pub mod Found
