-- Laws of the shared definitions, for the proofs of all crates.
pub mod Bools
pub mod Floats
pub mod Items
pub mod Loops
pub mod Tests
pub mod Order
pub mod Largest
pub mod Quotients
pub mod Once
pub mod Nearest
pub mod Bounds
