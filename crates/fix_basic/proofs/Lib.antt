-- Laws of a call's own part.
pub mod Leaves
pub mod Laws
