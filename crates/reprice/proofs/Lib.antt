-- Laws of the call.
pub mod Laws
