-- A feed in pieces.
pub mod Laws
