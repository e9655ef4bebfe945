-- Laws of the two ends of a call.
pub mod Laws
