-- What the end of a solve is lent.
pub mod Lent
