-- Laws of the figures of patches and of the patch of a place.
pub mod LeafNumbers
pub mod Depths
pub mod FigureLaws
pub mod Touches
