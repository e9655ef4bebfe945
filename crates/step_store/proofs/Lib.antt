-- Laws of a step's stores, for the proofs of this crate and of those that take a step.
pub mod Laws
pub mod Parts
