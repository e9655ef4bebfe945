-- The numbers of the answers of a solve from any start.
pub mod Numbers
