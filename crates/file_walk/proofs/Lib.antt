-- What the code's loop says of a walk.
pub mod Laws
