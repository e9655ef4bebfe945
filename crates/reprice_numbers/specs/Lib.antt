-- The numbers of a repricing: the parts that are lent, and a column's sum from the matrix by columns.
pub mod Lent
