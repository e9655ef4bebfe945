-- Laws of the walk, for the proofs of all crates, and what its order means.
pub mod Laws
pub mod Walked
pub mod Order
