-- What the start's values are reckoned from.
pub mod Lent
