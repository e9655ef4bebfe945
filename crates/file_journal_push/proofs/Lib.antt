-- A lent journal, written.
pub mod Laws
