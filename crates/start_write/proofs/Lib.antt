-- Laws of the first state as it is written.
pub mod Written
