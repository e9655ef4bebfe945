-- The numbers of the answers on a file.
pub mod Numbers
