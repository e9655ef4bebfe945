-- The scattered vector as a definition.
pub mod Scattered
