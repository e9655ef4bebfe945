-- Laws of the values and of the final check, for the proofs of this crate and of its callers.
pub mod Laws
pub mod Parts
pub mod Front
pub mod Fits
