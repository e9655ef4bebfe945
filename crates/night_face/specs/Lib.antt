-- The numbers of the night's answers.
pub mod Numbers
