-- The law of the plan that is lent.
pub mod Laws
