-- What the calls of a step ask, the ways it ends, and its laws for the run.
pub mod Laws
