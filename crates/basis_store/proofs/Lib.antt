-- Laws of the store's tail, for the proofs of this crate and of those that push a column.
pub mod Laws
