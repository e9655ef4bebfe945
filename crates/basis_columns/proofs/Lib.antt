-- Laws of the matrix by columns.
pub mod Counts
pub mod Lengths
pub mod Placed
pub mod Columns
pub mod Whole
pub mod Callers
pub mod Loading
