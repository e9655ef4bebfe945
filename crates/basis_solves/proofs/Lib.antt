-- Laws of the solves, for the proofs of this crate and of those that solve through it.
pub mod Laws
