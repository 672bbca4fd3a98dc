-- The labelling of a section and the count of minima by floods: what holds between two steps, a module a concept.
pub mod Search
pub mod Flood
pub mod Labelled
pub mod Agreeing
pub mod Zones
pub mod ZoneScan
