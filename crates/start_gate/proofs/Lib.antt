-- Laws of the gateway, for the proofs of this crate and of its caller.
pub mod Long
pub mod Gate
