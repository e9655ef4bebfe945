-- What is decided of an exchange, and what that asks of the arrays that it is lent.
pub mod Decided
pub mod Lent
