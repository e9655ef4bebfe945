-- Laws for the functions' proofs, and what a row's multiplier is.
pub mod Laws
