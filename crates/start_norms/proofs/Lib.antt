-- What the squares sum to, and the law of the part that is lent.
pub mod Norms
pub mod Parts
