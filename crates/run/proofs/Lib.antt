-- Laws of the run, for its proofs and for those that run.
pub mod Laws
pub mod Primal
