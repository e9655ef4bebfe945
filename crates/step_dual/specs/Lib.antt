-- What is decided of a dual step.
pub mod Found
