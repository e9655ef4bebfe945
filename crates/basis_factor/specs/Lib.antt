-- The basis that is factored.
pub mod Basis
