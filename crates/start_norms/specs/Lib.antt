-- How the norms' squares are added.
pub mod Squares
