-- Laws of a call's gate.
pub mod Laws
