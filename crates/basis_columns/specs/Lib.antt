-- The matrix by columns: how it is put together, what it then holds, and a column on a vector.
pub mod Columns
pub mod Loading
