-- What the tests tell, for the proofs of the crates above.
pub mod Tells
mod Joins
