-- C, B and the counts over numbers alone.
pub mod Parts
