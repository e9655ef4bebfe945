-- Laws of the refusals' parts and of kept rows, for the proofs of this crate and of its callers.
pub mod Laws
pub mod Parts
pub mod Ladder
pub mod Fits
pub mod Kept
