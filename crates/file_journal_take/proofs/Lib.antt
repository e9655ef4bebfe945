-- A feed's blocks.
pub mod Laws
