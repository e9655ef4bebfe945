-- The two halves of an exchange, and what the stores ask of the arrays that they are lent.
pub mod Halves
pub mod Lent
