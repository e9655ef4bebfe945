-- Laws of the own part, for its proofs.
pub mod Laws
