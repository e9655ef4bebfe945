-- Laws of the ratio's parts, for the proofs of this crate and of its callers.
pub mod Parts
pub mod Fits
pub mod Passes
pub mod Answers
