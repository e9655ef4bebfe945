-- What the tests between the stages read.
pub mod Costed
