-- Laws of a factor that isn't stored, for the proofs here and for its callers.
pub mod Laws
