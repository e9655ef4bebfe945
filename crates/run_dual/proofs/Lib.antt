-- Laws of the run from dual steps on, for its proofs and for those that run.
pub mod Dual
pub mod Turn
