-- How entries are counted and placed, and that the transpose of a triangle is one.
pub mod Counts
pub mod Placed
pub mod Columns
