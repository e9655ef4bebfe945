-- What an exported call hands out.
pub mod Laws
