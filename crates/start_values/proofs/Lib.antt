-- Laws of the parts that are lent, for callers.
pub mod Parts
