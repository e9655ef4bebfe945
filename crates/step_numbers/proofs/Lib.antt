-- Laws of a step's new numbers and of their tests, for the proofs of this crate and of those that take a step.
pub mod Laws
pub mod Parts
