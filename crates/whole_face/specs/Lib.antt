-- The numbers of the answers on whole numbers.
pub mod Numbers
