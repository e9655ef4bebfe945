-- What is written one behind another.
pub mod Laws
