-- The calls, by their definitions.
pub mod Writing
pub mod Reading
