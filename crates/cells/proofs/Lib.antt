-- Laws of a variable's bounds and of the cells, for the proofs of this crate and of its callers.
pub mod Slacks
pub mod Parts
pub mod Fits
