-- The changes of R and D.
pub mod Change
