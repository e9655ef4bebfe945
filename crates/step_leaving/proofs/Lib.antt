-- Laws of the choice's parts, for the proofs of this crate and of its callers.
pub mod Parts
pub mod Fits
pub mod Answers
