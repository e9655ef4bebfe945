-- Laws of a refactoring, for its proof.
pub mod Laws
