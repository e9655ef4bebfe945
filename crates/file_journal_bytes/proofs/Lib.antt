-- The bytes of a journal.
pub mod Laws
