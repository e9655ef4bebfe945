-- The audit's laws.
pub mod Laws
