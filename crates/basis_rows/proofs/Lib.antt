-- Laws of the combined rows, for the proofs of this crate and of those that combine rows.
pub mod Laws
pub mod Parts
mod Wide
