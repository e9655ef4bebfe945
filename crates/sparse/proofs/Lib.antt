-- Laws of the scattered vector, for the proofs of all crates.
pub mod Laws
