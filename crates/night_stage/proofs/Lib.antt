-- The stage's laws.
pub mod Laws
