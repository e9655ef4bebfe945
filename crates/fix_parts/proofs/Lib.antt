-- Laws of a call's parts.
pub mod Laws
