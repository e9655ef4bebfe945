-- Laws for the proofs.
pub mod Sizes
pub mod ByKind
pub mod Lent
