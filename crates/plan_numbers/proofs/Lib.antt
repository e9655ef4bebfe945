-- The law of the part that is lent, for callers.
pub mod Parts
