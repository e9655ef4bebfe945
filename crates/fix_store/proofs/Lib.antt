-- Laws of the stores of a fix.
pub mod Laws
