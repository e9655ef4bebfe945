-- What the calls of a dual step ask, the ways it ends, and what a run uses.
pub mod Laws
