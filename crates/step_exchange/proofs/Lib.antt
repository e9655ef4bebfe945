-- Laws of an exchange, for the proofs of this crate and of those that step.
pub mod Laws
