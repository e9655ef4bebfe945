-- What the solves of a step ask of the arrays that they are lent.
pub mod Lent
