-- What the start is reckoned from and in, and what its functions ask.
pub mod Lent
pub mod Reckoned
