-- Laws of the launch, for the proofs of this crate and of its caller.
pub mod Laws
