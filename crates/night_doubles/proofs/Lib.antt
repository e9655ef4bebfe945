-- The conversion's laws.
pub mod Laws
