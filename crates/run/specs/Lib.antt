-- What a run asks, and what it gives.
pub mod Ran
pub mod Lent
