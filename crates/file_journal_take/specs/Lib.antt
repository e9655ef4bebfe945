-- What a step of a feed leaves.
pub mod Steps
