-- What is decided of a step.
pub mod Found
