-- Laws of the solves, for the proofs of all crates.
pub mod Laws
