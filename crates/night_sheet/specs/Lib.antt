-- What a stage's audit leaves.
pub mod Audited
