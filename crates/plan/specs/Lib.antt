-- The plan as this crate's functions are lent it, its kept rows, and what the gateway's first five refusals answer.
pub mod Lent
pub mod Kept
pub mod Refused
