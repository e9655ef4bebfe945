-- Laws of the tests, for the proofs of all crates.
pub mod Laws
