-- The new numbers of a step one by one, and what their tests ask of the arrays that they are lent.
pub mod New
pub mod Lent
