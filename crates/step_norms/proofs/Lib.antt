-- The ways an exchange with both kinds of norm ends.
pub mod Laws
