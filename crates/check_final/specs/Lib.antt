-- What the values of a state and the final check are read from.
pub mod Lent
