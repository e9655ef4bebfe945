-- What a step leaves, and what an exchange asks of the arrays that it is lent.
pub mod Left
pub mod Made
pub mod Lent
