-- What the conversion asks and leaves.
pub mod Laid
pub mod Converted
