-- Solves of a triangle, sparse and dense, as definitions.
pub mod Solve
