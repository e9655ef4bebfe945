-- Laws of the run.
pub mod Laws
