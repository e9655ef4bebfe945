-- A feed's cells.
pub mod Laws
