-- Laws of a call's run.
pub mod Parts
