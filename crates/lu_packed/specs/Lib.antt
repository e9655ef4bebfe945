-- Writing a factor into two lent lists.
pub mod Written
