-- Laws of the end of a solve, for the proofs of this crate and of its caller.
pub mod Laws
