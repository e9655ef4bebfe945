-- Laws for the proofs of the crates above.
pub mod Machine
pub mod Word
pub mod Laws
