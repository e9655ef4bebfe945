-- A lent journal, read.
pub mod Laws
