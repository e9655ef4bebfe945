-- The numbers of the answers of fix and unfix.
pub mod Numbers
