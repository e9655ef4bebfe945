-- Sections of a list, and the state after one of them has changed.
pub mod Sections
pub mod Moves
pub mod Memory
