-- What the bounds of variables are read from.
pub mod Bounds
