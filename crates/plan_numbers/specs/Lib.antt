-- The plan as refusal 2 is lent it.
pub mod Lent
