-- Laws of the start, for the proofs of this crate and of its callers.
pub mod Parts
pub mod Start
