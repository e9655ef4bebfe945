-- What a pricing asks of the arrays that it is lent, and what it leaves.
pub mod Lent
pub mod Left
