-- The state in two lists, and all that is lent.
pub mod Packed
pub mod Memory
