-- The ratio on prices: what is lent to it, and the answers of its parts.
pub mod Lent
pub mod Parts
