-- The multiplier of each row of a plan.
pub mod Rows
