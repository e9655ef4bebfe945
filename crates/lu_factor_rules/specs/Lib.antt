-- The factor of a basis, as definitions: how it is made, transposed and solved with.
pub mod Factor
pub mod Transpose
pub mod Solves
pub mod Packed
pub mod Sound
pub mod Ready
pub mod Counted
pub mod Ends
